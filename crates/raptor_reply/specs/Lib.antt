-- The definitions that the contracts of `raptor_reply` cite.
pub mod Chosen
