-- Whether rows that were written and read again are the same.
pub mod Again
