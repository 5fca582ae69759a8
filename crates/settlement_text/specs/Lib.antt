-- A text at the front of the output's array.
pub mod Texts
