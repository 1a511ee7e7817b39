-- The definitions that the contracts of `print` cite.
pub mod Whole
