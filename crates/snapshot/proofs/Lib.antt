-- What reading and writing find on their way.
pub mod FenceLaws
pub mod TextLaws
pub mod Judging
pub mod Sounding
pub mod Putting
pub mod ReadAnswers
pub mod WriteAnswers
