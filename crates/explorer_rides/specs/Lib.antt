-- The definitions that the contracts of `explorer_rides` cite.
pub mod Riding
pub mod Looking
pub mod Course
