-- Request 1, in the order of reading: "Read GTFS files directly."
pub mod Columns
pub mod Feed
pub mod Times
pub mod Transfers
pub mod Reading
pub mod Writing
pub mod Orderly
pub mod Rows
pub mod Promised
pub mod Spans
pub mod Ending
pub mod Held
pub mod Heads
pub mod Refused
pub mod Speaking
pub mod Undoubled
