-- What request 1 promises, one subject a file.
pub mod Rooms
pub mod Keeps
pub mod Numbers
pub mod Splits
pub mod Sizes
pub mod InOrder
pub mod Names
pub mod Unique
pub mod Wrote
pub mod Takes
pub mod Back
pub mod Witness
pub mod Worked
pub mod Rewritten
