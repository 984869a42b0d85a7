-- That each promise leaves no choice.
pub mod Unique
pub mod Words
