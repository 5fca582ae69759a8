-- What the checks of a set answer and let through.
pub mod Sized
pub mod Checked
