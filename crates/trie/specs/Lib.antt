-- Sets of routes, the plain scan, and the priority trie.
pub mod Routes
pub mod Scan
pub mod Trie
pub mod Update
pub mod Theorems
