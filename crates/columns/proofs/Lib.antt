-- The laws that the proofs of `columns` cite.
pub mod Passing
pub mod Gathering
pub mod Finding
