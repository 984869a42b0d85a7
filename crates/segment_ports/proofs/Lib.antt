-- Laws of the ports of blocks, by runs.
pub mod Runs
pub mod Fills
pub mod Within
pub mod Ported
pub mod Unique
