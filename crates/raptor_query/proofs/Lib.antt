-- The laws behind the proofs of `raptor_query`.
pub mod Places
