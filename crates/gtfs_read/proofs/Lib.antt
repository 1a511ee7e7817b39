-- Laws that belong to no one function.
pub mod Beside
pub mod Rooms
pub mod Carried
pub mod Files
pub mod Answers
