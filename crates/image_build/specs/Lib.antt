-- What a build answers and leaves, and what its functions rely on.
pub mod Build
pub mod Needs
pub mod Theorems
