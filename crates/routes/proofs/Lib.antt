-- Laws of the route list, its check and its plain scan.
pub mod Faults
pub mod First
pub mod Check
pub mod Rising
pub mod Scan
pub mod Held
pub mod Unique
pub mod Words
