-- What a call answers, and the published refusals.
pub mod Refusals
pub mod Reply
