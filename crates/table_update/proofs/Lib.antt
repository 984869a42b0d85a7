-- Laws of the calls that change a table, and of their history.
pub mod Arguments
pub mod Answers
pub mod History
pub mod Unique
pub mod BuildIsGood
pub mod FillLoop
pub mod BuildIsHistory
