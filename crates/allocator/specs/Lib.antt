-- Where the search's state stands in the lent words, and what each operation does to it.
pub mod Sections
pub mod Rows
pub mod Layout
pub mod Tidy
pub mod Does
pub mod Parts
pub mod Operations
pub mod Repeated
pub mod Marked
pub mod Workspace
