-- The definitions that every layer cites.
pub mod Bits
pub mod Prefix
pub mod Bitmap
pub mod Theorems
