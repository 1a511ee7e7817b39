-- The definitions that the contracts of `verdict_line` cite.
pub mod Printed
