-- How many nodes the image of a list has.
pub mod Counted
