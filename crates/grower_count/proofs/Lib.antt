-- Laws of numbers in rising order, each once, and of the batches of slots that are counted.
pub mod Smallest
pub mod Slots
pub mod Filling
pub mod Cutting
pub mod Windows
pub mod Counting
