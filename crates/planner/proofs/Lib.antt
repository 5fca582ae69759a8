-- The laws of the planner.
pub mod Answers
