-- Laws of this layer that belong to no one function.
pub mod Nodes
pub mod Unique
