-- What the scans answer, in the model's terms.
pub mod Scans
