-- The laws behind the proofs of the feed's C face.
pub mod Sizes
pub mod Writings
pub mod Readings
