-- The laws that the proofs of `csv` cite.
pub mod Parts
pub mod Texts
pub mod Scanning
pub mod Lining
pub mod Stepping
