-- Laws that belong to no one function.
pub mod Pacing
pub mod Heading
