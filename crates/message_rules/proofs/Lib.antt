-- Laws of UPDATE messages.
pub mod Walk
pub mod Heads
pub mod Offsets
pub mod Parts
pub mod Refused
pub mod Made
pub mod Written
pub mod WrittenBack
pub mod WriteCalls
pub mod Unique
