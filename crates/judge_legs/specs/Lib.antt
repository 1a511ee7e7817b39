-- The definitions that the contracts of `judge_legs` cite.
pub mod Reading
