-- How the routes of a table are written into a list.
pub mod Writing
