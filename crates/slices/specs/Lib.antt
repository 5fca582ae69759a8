-- What the loops over slices answer.
pub mod Slices
