-- Laws of the route file.
pub mod Cleared
pub mod Sound
pub mod Walk
pub mod Words
pub mod Trips
pub mod Unique
pub mod Whole
pub mod WriteRead
