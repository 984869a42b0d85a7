-- Laws of the run listing.
pub mod Runs
pub mod Boundaries
pub mod Listing
pub mod Words
pub mod Same
pub mod Maximal
pub mod TableRuns
