-- Laws of the check's code.
pub mod Returns
pub mod Walk
pub mod Whole
pub mod Unique
