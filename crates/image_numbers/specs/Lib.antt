-- The slots of a stride, and what the code's functions rely on.
pub mod Slots
pub mod Needs
