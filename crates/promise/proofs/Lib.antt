-- Laws that every layer's writers cite.
pub mod Over
