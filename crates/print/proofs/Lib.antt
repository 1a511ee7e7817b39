-- Laws on the size of a leg and on the legs that bytes begin with.
pub mod Sizes
pub mod Whole
