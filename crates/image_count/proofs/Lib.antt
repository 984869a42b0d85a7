-- Laws of the count of an image's nodes.
pub mod Few
pub mod CountLoop
pub mod Unique
