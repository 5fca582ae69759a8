-- What was read of an input.
pub mod Reads
