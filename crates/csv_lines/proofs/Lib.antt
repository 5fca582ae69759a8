-- How many digits numbers have, and bytes written one after the other.
pub mod PlainLaws
pub mod WritingLaws
pub mod RowLaws
