-- Laws that belong to no one function.
pub mod Joined
pub mod Rooms
pub mod Shown
pub mod Passed
