-- Laws that belong to no one function.
pub mod Rooms
pub mod Walk
pub mod Tests
pub mod Shown
