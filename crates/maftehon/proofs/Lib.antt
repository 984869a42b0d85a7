-- What the exports' proofs share, and that each promise leaves no choice.
pub mod Unique
pub mod Reply
pub mod Conversions
