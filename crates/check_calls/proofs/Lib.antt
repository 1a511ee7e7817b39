-- Laws that belong to no one function.
pub mod Ranges
pub mod Facts
pub mod CallRows
pub mod Rooms
pub mod Entries
pub mod Halved
pub mod Parts
