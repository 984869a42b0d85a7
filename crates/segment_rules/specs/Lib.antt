-- The segment tables: blocks of addresses, the packed form of a segment, the tables of a list, the lookup on any stores, where the
-- entries of a segment stand, and the build.
pub mod Blocks
pub mod Packed
pub mod Tables
pub mod Lookup
pub mod Parts
pub mod Theorems
pub mod Build
