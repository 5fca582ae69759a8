-- The sort's laws: passes by one digit, slots by grower, and runs.
pub mod Buckets
pub mod Spreads
pub mod Groups
pub mod Order
pub mod Counting
pub mod Adding
pub mod Scattering
pub mod Passing
pub mod RunLaws
pub mod Writing
pub mod Arranging
pub mod Picking
