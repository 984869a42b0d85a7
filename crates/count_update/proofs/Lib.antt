-- Laws of the counted updates.
pub mod Counts
pub mod Updates
pub mod Unique
