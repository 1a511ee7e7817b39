-- The definitions that the contracts of the footpaths cite.
pub mod Footing
