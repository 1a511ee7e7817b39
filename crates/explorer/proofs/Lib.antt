-- That the half-rounds in one pass are the half-rounds of the model.
pub mod Fused
pub mod Turns
pub mod Marked
pub mod Visited
pub mod Fixed
