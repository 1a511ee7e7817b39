-- The laws that the functions of `judge_rides` cite.
pub mod Riding
