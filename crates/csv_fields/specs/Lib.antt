-- What reading a field answers.
pub mod Reading
