-- A segment in its packed form, as the code builds it.
pub mod Pack
pub mod Needs
