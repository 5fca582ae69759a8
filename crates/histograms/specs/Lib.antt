-- Where each histogram stands, and counts that are raised together.
pub mod Numbers
pub mod Raising
