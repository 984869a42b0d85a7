-- The build of segment tables, and what its functions ask of each other.
pub mod Walks
pub mod Needs
