-- What a turn of each loop shows.
pub mod Flags
pub mod Places
pub mod Scans
pub mod Sums
pub mod Strides
pub mod Matching
pub mod Keeping
