-- The laws that the functions of `judge_legs` cite.
pub mod Steps
