-- The laws of the terms.
pub mod TermLaws
pub mod BlockCost
pub mod LayoutCost
pub mod PartitionPrice
pub mod PricesComputed
