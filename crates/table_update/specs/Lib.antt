-- Announce, withdraw and build on the words of a table, and the history of calls.
pub mod Calls
pub mod History
pub mod Theorems
pub mod Needs
