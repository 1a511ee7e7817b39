-- The laws behind the proofs of how a round opens.
pub mod Choosing
pub mod Opened
