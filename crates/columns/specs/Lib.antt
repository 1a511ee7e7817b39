-- The fields that are wanted of a line, and the columns of a header.
pub mod Picks
pub mod Keeping
