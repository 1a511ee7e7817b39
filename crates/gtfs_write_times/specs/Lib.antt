-- What the writer of stop times answers.
pub mod WrittenTimes
