-- The laws of the words that others cite.
pub mod Legs
pub mod Writes
