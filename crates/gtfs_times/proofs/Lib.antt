-- Laws that belong to no one function.
pub mod Going
pub mod Opening
