-- The definitions that the contracts of `judge_rides` cite.
pub mod Ridable
