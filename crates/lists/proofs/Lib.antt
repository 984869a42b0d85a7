-- Laws of lists, sums and tests that every layer cites.
pub mod Tests
pub mod Flat
pub mod Numbered
pub mod Sum
pub mod Sets
pub mod InOrder
pub mod Below
