-- The laws of how chosen ends go on, of how many layouts there are, and of their lines.
pub mod RestLaws
pub mod SizeLaws
pub mod LineLaws
pub mod PutLaws
pub mod RestsComputed
