-- Laws of the making of counts.
pub mod Added
pub mod Made
pub mod Unique
