-- What reading rows answers.
pub mod Rows
