-- The checks passed, and the permitted layouts as those of the search.
pub mod Given
pub mod Permitted
