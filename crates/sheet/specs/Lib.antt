-- What checking a column for a sheet finds.
pub mod Answers
