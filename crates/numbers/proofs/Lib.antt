-- The laws that the proofs of `numbers` cite.
pub mod Reading
pub mod Digits
pub mod Written
pub mod Writing
pub mod Clocks
pub mod Shown
pub mod Examples
