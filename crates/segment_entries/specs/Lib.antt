-- What is promised of where the entries of a segment stand, and of those entries. Which they are, segment_rules defines.
pub mod Handed
