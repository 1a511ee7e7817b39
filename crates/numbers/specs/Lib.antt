-- Numbers as decimal digits, read and written.
pub mod Decimal
pub mod Clock
