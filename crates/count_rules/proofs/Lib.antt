-- Laws of the counts.
pub mod Tally
pub mod OfTable
pub mod Counted
pub mod History
