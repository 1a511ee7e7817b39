-- Names that are numbered in the order of their first appearance, and how they are found again.
pub mod Names
pub mod Book
pub mod Booked
pub mod Told
