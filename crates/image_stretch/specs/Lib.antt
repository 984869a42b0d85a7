-- A node as a stretch of the list, how many nodes there are, and the builder's memory.
pub mod Stretches
pub mod Count
pub mod Memory
pub mod Needs
pub mod Theorems
