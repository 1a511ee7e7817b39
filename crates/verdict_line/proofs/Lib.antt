-- The laws of `verdict_line`.
pub mod Printed
