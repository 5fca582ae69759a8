-- The layouts that the recursion lists are the permitted ones, and what a listing answers.
pub mod Rests
pub mod ListingAnswers
