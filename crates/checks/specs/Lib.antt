-- What checking slices answers.
pub mod Values
