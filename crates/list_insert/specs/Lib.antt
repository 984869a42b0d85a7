-- A route put into its place in a list.
pub mod Insertion
