-- Laws of text and of the page.
pub mod Wrote
pub mod Text
pub mod Decimal
pub mod Lines
pub mod Answers
pub mod Example
pub mod Unique
