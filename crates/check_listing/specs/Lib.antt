-- What the contracts of `check_listing` cite beside the definitions of `repository`.
pub mod Fitting
