-- Laws of the update's loops, a turn at a time.
pub mod Unique
pub mod Announce
pub mod Withdraw
pub mod Held
