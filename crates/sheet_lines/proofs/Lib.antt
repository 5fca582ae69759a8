-- Lines of wide fields, runs of slots, and the slots of each grower as a line.
pub mod WideLines
pub mod RunLaws
pub mod GroupLines
pub mod SheetText
