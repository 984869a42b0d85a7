-- Laws of this layer that belong to no one function.
pub mod Turns
pub mod Unique
