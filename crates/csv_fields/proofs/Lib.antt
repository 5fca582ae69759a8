-- The laws of reading a field at a byte.
pub mod CursorLaws
pub mod NumberLaws
pub mod CellLaws
pub mod PassedLaws
