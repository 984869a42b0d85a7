-- How many addresses each port gets, and what the calls with counts answer and leave.
pub mod Tally
pub mod Counted
pub mod History
pub mod Theorems
