-- What a pass of the sort does, runs of neighbouring slots, and the slots of some days.
pub mod Passes
pub mod Runs
pub mod Spans
