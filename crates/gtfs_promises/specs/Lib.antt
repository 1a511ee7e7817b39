-- What the promises of request 1 are stated with.
pub mod Answers
pub mod Tables
