-- The laws of the header's names and columns, and what importing and exporting answer.
pub mod NameLaws
pub mod HeaderLaws
pub mod RowDays
pub mod ImportAnswers
pub mod ExportAnswers
