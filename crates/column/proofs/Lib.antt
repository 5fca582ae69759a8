-- What each test of a call shows of its answer.
pub mod Answering
pub mod Reading
pub mod Searching
pub mod Neighbours
pub mod Writing
pub mod Handing
