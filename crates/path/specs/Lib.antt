-- The definitions that the contracts of `path` cite, and those that its promises are stated with.
pub mod Step
pub mod Traced
pub mod Once
