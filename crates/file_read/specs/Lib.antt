-- What the parts of the reader give and ask.
pub mod Step
pub mod Needs
