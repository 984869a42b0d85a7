-- Laws of answers.
pub mod Numbers
pub mod Unique
