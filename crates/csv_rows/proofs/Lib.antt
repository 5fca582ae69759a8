-- The laws of reading rows.
pub mod RecordLaws
pub mod ShortLaws
pub mod RowLaws
pub mod JudgeLaws
pub mod StoreLaws
