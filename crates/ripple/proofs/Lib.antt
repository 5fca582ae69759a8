-- What a turn of each loop does to a slice, how the calls are made of the two loops, and the same of the four slices at once.
pub mod Loops
pub mod Compose
pub mod EachSlice
pub mod PutBack
