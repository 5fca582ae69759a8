-- What each test says of a directory, its numbers, partitions put into it, and a lent column.
pub mod Shapes
pub mod Judging
pub mod Numbers
pub mod LentColumns
pub mod Putting
