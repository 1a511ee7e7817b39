-- The definitions that the contracts of the check cite.
pub mod Distances
pub mod Says
