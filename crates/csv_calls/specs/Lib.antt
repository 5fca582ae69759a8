-- What checking a text answers.
pub mod Checking
