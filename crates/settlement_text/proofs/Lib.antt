-- The program's output, and an input that is cut short.
pub mod Sheets
pub mod CutShort
