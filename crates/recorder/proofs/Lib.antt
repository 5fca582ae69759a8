-- What a recorder call answers.
pub mod Recording
