-- The definitions that the contracts of `arguments` cite.
pub mod Digits
pub mod Word
pub mod Moment
pub mod Place
pub mod Options
