-- Laws that belong to no one function.
pub mod Rooms
pub mod Shown
pub mod Whole
pub mod Examples
pub mod Unlisted
