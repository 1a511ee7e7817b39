-- The definitions that the contracts of numbers 3 and 4 cite.
pub mod AtTrip
