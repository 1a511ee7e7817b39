-- The laws that the functions of `judge_paths` cite.
pub mod Rows
pub mod Listed
