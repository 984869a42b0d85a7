-- Laws of the reader.
pub mod Unique
pub mod Steps
pub mod FillLoop
pub mod Head
pub mod ReadCall
pub mod StepReturns
