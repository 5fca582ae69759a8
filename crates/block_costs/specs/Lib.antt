-- The terms of blocks, by prices and histograms; their running sums, and the price by them.
pub mod Terms
pub mod Price
pub mod PriceExamples
