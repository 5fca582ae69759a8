-- What a batch of slots holds.
pub mod Batches
