-- The run listing: what it is, and how it is found.
pub mod Runs
pub mod Boundaries
pub mod Listing
pub mod TableRuns
pub mod Maximal
pub mod Theorems
