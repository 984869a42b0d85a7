-- How the runs of a listing are added up.
pub mod Adding
