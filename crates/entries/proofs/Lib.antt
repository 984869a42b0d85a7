-- Laws of stores of entries.
pub mod Filled
pub mod Unique
