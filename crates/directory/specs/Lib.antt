-- What judging a directory answers, and its numbers.
pub mod Shapes
pub mod Numbers
