-- The definitions that the contracts of the round loop cite.
pub mod Targets
pub mod OneRound
pub mod Tabled
pub mod Asked
