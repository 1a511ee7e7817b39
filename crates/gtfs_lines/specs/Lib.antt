-- One line of either file as values.
pub mod Values
