-- What calls a message stands for, and how many routes they leave.
pub mod Once
pub mod Named
pub mod Steps
pub mod Apply
pub mod History
pub mod Theorems
