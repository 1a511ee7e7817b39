-- The laws behind the proofs of the C face.
pub mod Told
pub mod Rooms
pub mod Reading
pub mod Unique
pub mod Found
pub mod ReadBack
pub mod Enough
pub mod Verdicts
