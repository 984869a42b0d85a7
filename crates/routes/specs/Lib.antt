-- The published refusals, the route list and its plain scan.
pub mod Routes
pub mod Check
pub mod Scan
pub mod Theorems
pub mod Bounds
