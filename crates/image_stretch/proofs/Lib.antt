-- Laws of the stretches and of the builder's memory.
pub mod FirstAndLast
pub mod Bounds
pub mod Places
pub mod Alikes
pub mod Trees
pub mod Resuming
pub mod Parting
pub mod Counting
pub mod SlotLoop
pub mod QueueStep
pub mod Pending
pub mod QueueLoop
pub mod Room
