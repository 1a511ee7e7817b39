-- The laws behind the proofs of the footpaths of a round.
pub mod Steps
pub mod Gaining
pub mod Paths
pub mod Held
pub mod Stops
pub mod Reverse
pub mod Footing
