-- Runs of one grower's slots in an order.
pub mod Runs
