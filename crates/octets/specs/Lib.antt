-- Numbers as bytes, and prefixes as a length byte and the fewest bytes that hold them.
pub mod Bytes
pub mod Octets
pub mod Gives
pub mod Taken
pub mod Theorems
