-- What the writers of rows share.
pub mod Written
pub mod Refusing
