-- Laws of this layer that belong to no one function.
pub mod SlotReturns
pub mod LeafSlots
pub mod NodeStep
pub mod WholeImage
pub mod Answers
pub mod Scanned
pub mod Unique
