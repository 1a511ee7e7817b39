-- Laws that belong to no one function.
pub mod Firsts
pub mod Tests
pub mod Within
pub mod Earliest
pub mod Latest
pub mod Caught
pub mod Quarters
pub mod Near
pub mod Spans
pub mod Stations
pub mod Counting
pub mod Areas
