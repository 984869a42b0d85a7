-- Rows as memory, the trie that they hold, and the calls on them.
pub mod Rows
pub mod Order
pub mod Holds
pub mod Lookup
pub mod RowsRead
pub mod Check
pub mod Save
pub mod Announce
pub mod Withdraw
pub mod Theorems
pub mod Ascending
pub mod SetOf
pub mod Walk
pub mod Savable
