-- Fields read and written column by column, and bytes placed in a text.
pub mod Columns
pub mod Spelling
pub mod Placing
pub mod WritingLaws
pub mod Putting
pub mod Signs
