-- A node's two words as the code reads and stores them, and what the code's functions rely on.
pub mod Words
pub mod Needs
