-- Laws of the image.
pub mod Numbering
pub mod Counts
pub mod Longer
pub mod Words
pub mod Walk
pub mod Sound
pub mod Slots
pub mod Descent
pub mod Image
pub mod Alike
pub mod Listed
pub mod Strides
pub mod Built
pub mod NodesRead
