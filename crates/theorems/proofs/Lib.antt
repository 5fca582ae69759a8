-- The theorems' proofs.
-- The ledger: bags, one delivery, scans of a valid column, each call, the list of calls.
pub mod Bags
pub mod OneDelivery
pub mod Scans
pub mod ValidColumn
pub mod Refusals
pub mod Changes
pub mod AfterCalls
pub mod LaidColumn
pub mod Ledger
-- The next grower: the partitions in the order in which they are scanned, and the ledger.
pub mod NextGrower
-- The settlement sheet: the order of the records, and the ledger.
pub mod Sheet
-- Demand 3: what is recorded, what it costs, what the fresh column reports, what the planner answers.
pub mod RecordingSums
pub mod RecordingEntries
pub mod RecordingCounts
pub mod RecordingCosts
pub mod PlanChecks
pub mod RecordingCalls
pub mod PlanFresh
pub mod CallPrices
pub mod PlanReports
pub mod PlanSums
pub mod PlanAnswers
pub mod Demand3
pub mod PlanExample
-- The limits as prices of a find and of an insert.
pub mod Limits
pub mod LimitsExample
-- What more calls add to a cost: the price of one call, and the sums.
pub mod CallBounds
pub mod MoreCalls
pub mod MoreCallsExample
-- The listing of every permitted layout.
pub mod Listing
-- The snapshot's round trips.
pub mod Snapshot
-- The weighbridge file's round trip.
pub mod ExportRead
pub mod Weighbridge
