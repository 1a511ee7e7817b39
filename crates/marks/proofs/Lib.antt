-- Laws that belong to no one function.
pub mod Chosen
pub mod Words
pub mod Laws
pub mod Stand
