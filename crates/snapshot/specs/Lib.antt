-- What reading finds in a text, and what reading and writing answer.
pub mod Texts
pub mod Answers
