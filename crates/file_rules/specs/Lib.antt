-- The route file: its bytes, its routes and their places, its checks, and what reading and writing one leaves.
pub mod File
pub mod Check
pub mod Cleared
pub mod Calls
pub mod Theorems
