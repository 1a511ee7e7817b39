-- The definitions that the contracts of `judge_paths` cite.
pub mod Paths
pub mod Areas
