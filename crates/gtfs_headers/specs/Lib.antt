-- The header of either file as the places of its columns.
pub mod Headers
