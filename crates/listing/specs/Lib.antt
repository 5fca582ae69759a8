-- What the limits let a layout be, and what checking a set for a listing finds.
pub mod Answers
