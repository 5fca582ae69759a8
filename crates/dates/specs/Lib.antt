-- The calls, laws and examples of dates, day numbers and settlement terms (02: Slip 7; the definitions are in model), in the order in which they are best read.
pub mod Months
pub mod DateCalls
pub mod DateExamples
pub mod DateLaws
pub mod Parts
