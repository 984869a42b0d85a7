-- Laws of the writer.
pub mod Bodies
pub mod Unique
pub mod Store
pub mod WriteCall
