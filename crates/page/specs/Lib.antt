-- The page that the program `runs` prints.
pub mod Text
pub mod Decimal
pub mod Page
pub mod Theorems
pub mod Needs
