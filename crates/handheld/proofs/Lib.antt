-- The theorems on what is right, and the laws that the code cites.
pub mod Any
pub mod Legs
pub mod Followed
pub mod Decided
pub mod Written
pub mod Worked
