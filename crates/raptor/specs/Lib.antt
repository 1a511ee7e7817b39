-- The contract of `solve`, and what the functions below it say. A reader opens Solved first.
pub mod Lent
pub mod Solved
pub mod Rooms
pub mod Searching
