-- What the sweep reads, and what its functions ask of each other.
pub mod Sweep
pub mod Needs
