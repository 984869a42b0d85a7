-- Lists by number, tests of numbers, and what the elements of a list give one after the other.
pub mod Flat
pub mod Numbered
pub mod Below
