-- Laws of the rows of places, and of the words that the calls leave.
pub mod Links
pub mod Grow
pub mod Shrink
pub mod One
pub mod Accepted
pub mod Words
