-- What every layer's promises share.
pub mod Determined
pub mod Made
pub mod Over
