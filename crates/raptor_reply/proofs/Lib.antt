-- The laws behind the proof of `raptor_reply`.
pub mod Replies
