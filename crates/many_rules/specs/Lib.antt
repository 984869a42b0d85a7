-- Many lookups in one call.
pub mod Many
pub mod Theorems
