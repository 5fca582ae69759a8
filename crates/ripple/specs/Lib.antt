-- The slices that a write moves records in.
pub mod Held
