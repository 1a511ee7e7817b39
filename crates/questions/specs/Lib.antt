-- The definitions that the contracts of `questions` cite.
pub mod Asking
