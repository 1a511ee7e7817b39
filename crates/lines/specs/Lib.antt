-- The definitions that the contracts of `lines` cite.
pub mod Token
pub mod Step
