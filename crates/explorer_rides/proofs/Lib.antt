-- Laws that belong to no one function.
pub mod Seats
pub mod Times
pub mod Alighting
pub mod Catching
pub mod Boarding
pub mod Scanning
pub mod Unchanged
pub mod Routes
