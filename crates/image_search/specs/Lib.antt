-- How the search for the stretches of a node's slots goes.
pub mod Search
