-- The laws that the functions of `judge` cite.
pub mod Steps
