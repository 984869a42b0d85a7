-- The laws that every layer cites.
pub mod Bits
pub mod Prefix
pub mod Order
pub mod Bitmap
pub mod Digits
