-- Laws of this layer that belong to no one function.
pub mod Slots
pub mod Unique
