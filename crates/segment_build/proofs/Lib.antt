-- Laws of the build of segment tables.
pub mod Passes
pub mod Naming
pub mod Walking
pub mod PartsBack
pub mod Storing
pub mod LastBlocks
pub mod Writing
pub mod Unique
