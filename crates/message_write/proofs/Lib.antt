-- Laws of the writer.
pub mod Listed
pub mod Heads
pub mod WriteCall
pub mod Unique
