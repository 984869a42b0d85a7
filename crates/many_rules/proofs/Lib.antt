-- Laws of many lookups in one call.
pub mod Filling
pub mod Many
pub mod Unique
