-- What a way is, and what searching answers.
pub mod Ways
pub mod Searches
