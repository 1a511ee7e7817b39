-- The half-rounds in one pass: what the parts of the search in code are held to. And what stays fixed in a search.
pub mod Fixed
pub mod Applied
pub mod Fused
pub mod Turns
