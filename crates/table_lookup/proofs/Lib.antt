-- Laws that the functions of the table cite.
pub mod Search
pub mod Unique
pub mod Checked
pub mod GoodWalk
