-- What the column's inner functions answer, in the model's terms.
pub mod Answers
