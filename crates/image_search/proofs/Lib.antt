-- Laws of the search for the stretches of a node's slots.
pub mod SearchTests
pub mod Found
pub mod Clearing
pub mod Searching
pub mod Unique
