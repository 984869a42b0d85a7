-- What the check of a message answers.
pub mod Checked
