-- Laws of the segment tables.
pub mod Ports
pub mod Lent
pub mod Stores
pub mod Walk
pub mod Parts
pub mod AfterBuild
pub mod Told
pub mod Ranks
pub mod Unique
