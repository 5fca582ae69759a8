-- What the loops over a stride's growers show, how strides are joined, and the search from partition to partition.
pub mod Nearing
pub mod Joining
pub mod Searching
