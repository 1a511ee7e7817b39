-- Laws that belong to no one function.
pub mod Named
pub mod Taking
pub mod Naming
pub mod Taken
pub mod Filling
