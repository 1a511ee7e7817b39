-- What the depot is told of a handheld's legs: first what is right, then how it is decided.
pub mod Any
pub mod Right
pub mod Fitting
pub mod Verdict
pub mod Judged
