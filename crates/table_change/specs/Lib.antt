-- One step of an update, as the code takes it.
pub mod Plan
pub mod Refill
