-- What the parts of the writer give and ask.
pub mod Needs
