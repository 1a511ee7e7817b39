-- Laws that belong to no one function.
pub mod Fits
pub mod Marking
pub mod Rows
pub mod Stood
pub mod Parts
pub mod Shown
pub mod Kept
pub mod Examples
