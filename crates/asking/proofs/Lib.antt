-- The laws that the proofs of `asking` cite: parts of slices, what is told; and that it is told in one way only.
pub mod Parts
pub mod Telling
pub mod Unique
