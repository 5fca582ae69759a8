-- The laws of the search.
pub mod SumLaws
pub mod PriceLaws
pub mod BestLaws
pub mod FirstLaws
pub mod RowLaws
pub mod MinimumLaws
pub mod TailLaws
pub mod LeastLaws
pub mod NumberLaws
pub mod EndLaws
pub mod Bias
