-- Laws of this layer that belong to no one function.
pub mod Spans
pub mod Unique
