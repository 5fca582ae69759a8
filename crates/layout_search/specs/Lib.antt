-- The search for the least layout over running sums: what it looks for, and what its table holds.
pub mod Sums
pub mod Task
pub mod RunningSums
pub mod Table
pub mod Answer
pub mod Given
