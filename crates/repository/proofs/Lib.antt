-- Laws that belong to no one function. For callers: Lists, Ranges, Trips, Standing, Stops, Sorted, Spans, Exact, Areas, Sound.
pub mod Tabs
pub mod Rooms
pub mod Leaves
pub mod Reading
pub mod Lists
pub mod Ranges
pub mod Trips
pub mod Stops
pub mod Sorted
pub mod Spans
pub mod Exact
pub mod Areas
pub mod Sound
pub mod Narrow
pub mod All
pub mod Asked
pub mod Standing
