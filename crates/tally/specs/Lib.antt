-- What adding to a tally answers.
pub mod Added
