-- Laws of sets of routes, of the plain scan, and of the trie.
pub mod Routes
pub mod Order
pub mod Scan
pub mod Lookup
pub mod Insert
pub mod Remove
pub mod Listed
pub mod Rule
