-- A round is the model's, and the rounds come to its search; and that a search has one result.
pub mod Targets
pub mod Starting
pub mod Rest
pub mod OneRound
pub mod Steps
pub mod Loop
pub mod Unique
