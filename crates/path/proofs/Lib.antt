-- Laws that belong to no one function.
pub mod Steps
pub mod Behind
pub mod Counted
pub mod Order
pub mod Once
pub mod Examples
pub mod Writing
pub mod Reached
