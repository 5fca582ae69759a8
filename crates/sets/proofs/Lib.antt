-- What each test says of a set, and a grower's block.
pub mod Sets
pub mod Blocks
