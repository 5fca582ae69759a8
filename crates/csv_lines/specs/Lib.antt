-- What the parts of an export write, and how long they are.
pub mod Writing
