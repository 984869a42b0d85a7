-- Laws of the sweep and of the listing's answers.
pub mod Open
pub mod Writing
pub mod Turns
pub mod Answers
pub mod Saved
pub mod Unique
