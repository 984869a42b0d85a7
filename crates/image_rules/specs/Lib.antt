-- The image: its tree of slots, its words, and the lookup on any words.
pub mod Node
pub mod Breadth
pub mod Image
pub mod Lookup
pub mod Theorems
pub mod Built
pub mod NodesRead
