-- Laws of a route put into its place in a list.
pub mod Loops
pub mod Unique
