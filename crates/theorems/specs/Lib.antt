-- The theorems as statements; each is proved in the file of proofs/ that its comment names.
pub mod Ledger
pub mod NextGrower
pub mod Sheet
pub mod Plan
pub mod PlanExample
pub mod Limits
pub mod LimitsExample
pub mod MoreCalls
pub mod MoreCallsExample
pub mod Listing
pub mod Snapshot
pub mod Weighbridge
