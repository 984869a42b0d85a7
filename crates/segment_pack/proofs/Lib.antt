-- Laws of packing.
pub mod Codewords
pub mod Packed
pub mod Unique
