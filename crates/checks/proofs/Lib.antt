-- What each test says of its check.
pub mod Answers
