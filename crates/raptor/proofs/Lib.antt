-- The laws behind the proofs of `raptor`.
pub mod Placing
pub mod Searched
pub mod Told
pub mod Answered
pub mod Unique
pub mod Promises
pub mod Measures
