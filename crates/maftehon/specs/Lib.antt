-- What C gets.
pub mod Reply
