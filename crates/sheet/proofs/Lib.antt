-- Slots of a part of the growers, and what a sheet's checks and its call answer.
pub mod PartOrder
pub mod SheetAnswers
pub mod SheetCalls
