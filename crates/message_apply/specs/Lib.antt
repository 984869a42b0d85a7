-- What the parts of the call give and ask.
pub mod Needs
