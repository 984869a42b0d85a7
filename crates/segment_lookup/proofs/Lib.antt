-- Laws of this layer that belong to no one function.
pub mod Ranked
pub mod Unique
