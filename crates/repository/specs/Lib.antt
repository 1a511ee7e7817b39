-- The layout of the tables, the network that they hold, and what each number of the check asks of them.
pub mod Sections
pub mod NetOf
pub mod Laid
pub mod Listed
pub mod Checked
pub mod Accepted
pub mod Rows
pub mod Entries
pub mod Readable
