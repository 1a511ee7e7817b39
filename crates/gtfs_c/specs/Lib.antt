-- The definitions that the contracts of the feed's C face cite.
pub mod FeedFace
