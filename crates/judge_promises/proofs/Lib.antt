-- The promises of request 2, over the contracts of `judge` and `solve`, and words that meet what they suppose.
pub mod Promises
pub mod Faced
pub mod Witness
