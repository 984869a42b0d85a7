-- The rows of the places of a trie, and what the calls leave in them.
pub mod Places
pub mod Words
pub mod Theorems
