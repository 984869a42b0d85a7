-- Laws of bytes, and of prefixes as bytes.
pub mod Bytes
pub mod Numbers
pub mod Prefixes
pub mod Store
pub mod Parts
pub mod TakeReturns
pub mod Unique
