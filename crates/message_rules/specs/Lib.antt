-- UPDATE messages: their fields and parts, their checks, and the one that withdraws a list.
pub mod Message
pub mod Check
pub mod Faults
pub mod Written
pub mod Theorems
pub mod Left
