-- The definitions that the contracts of `discovery` cite.
pub mod Trips
pub mod Served
