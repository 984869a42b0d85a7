-- Laws of the calls of a message.
pub mod Once
pub mod Sized
pub mod Final
pub mod Running
pub mod Adding
pub mod Applied
pub mod Noting
pub mod Theorems
