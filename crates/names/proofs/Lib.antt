-- The laws that the proofs of `names` cite, and those that a book's users do.
pub mod Slots
pub mod Chasing
pub mod Adding
pub mod Clearing
pub mod Booking
