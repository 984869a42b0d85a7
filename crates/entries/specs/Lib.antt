-- Stores of 16-bit entries.
pub mod Entries
