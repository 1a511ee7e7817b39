-- Laws that belong to no one function.
pub mod Second
pub mod Taking
pub mod Taken
