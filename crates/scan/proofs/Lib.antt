-- Laws of the scan and of each call's answer.
pub mod Fitting
pub mod Scanning
