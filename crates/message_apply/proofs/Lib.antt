-- Laws of the call's code.
pub mod Ones
pub mod Folding
pub mod Counted
pub mod Calls
pub mod Unique
