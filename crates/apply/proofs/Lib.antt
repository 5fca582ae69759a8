-- What applying a layout fills in, and what it answers.
pub mod Filling
