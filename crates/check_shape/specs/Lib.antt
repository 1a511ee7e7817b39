-- The definitions that the contracts of number 1 cite.
pub mod Shape
