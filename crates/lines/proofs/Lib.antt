-- What a line of numbers holds, and how lines are judged, taken and written.
pub mod Storing
pub mod Reading
pub mod Forms
pub mod Putting
pub mod Outputs
