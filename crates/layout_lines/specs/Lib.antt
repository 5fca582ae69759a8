-- The layouts that chosen ends can go on to, and their lines.
pub mod Rests
pub mod RestExamples
