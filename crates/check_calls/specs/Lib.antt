-- What the contracts of `check_calls` cite beside the definitions of `repository`.
pub mod Reached
