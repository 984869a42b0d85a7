-- The ports of neighbouring blocks of addresses, by the runs of a list.
pub mod RunSearch
pub mod Ports
pub mod Needs
