-- The definitions that the contracts of how a round opens cite.
pub mod Chosen
