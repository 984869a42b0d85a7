-- Laws of this layer that belong to no one function.
pub mod Parts
pub mod Unique
