-- The checks of what a plan and a listing are given, and where an end may stand.
pub mod Given
