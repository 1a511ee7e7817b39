-- What the writer of transfers answers.
pub mod WrittenTransfers
