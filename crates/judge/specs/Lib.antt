-- The definitions that the contracts of `judge` cite. What is promised of it stands in `handheld`.
pub mod Places
