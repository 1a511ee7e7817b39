-- The definitions that the contract of `read` cites.
pub mod Reads
pub mod Parts
