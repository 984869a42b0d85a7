-- What the functions of the counted updates ask of each other.
pub mod Needs
