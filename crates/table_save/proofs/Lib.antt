-- Laws that the functions of saving cite.
pub mod Unique
pub mod Insertion
pub mod SaveWalk
