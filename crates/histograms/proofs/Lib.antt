-- How many histograms there are, what each test says of the histograms, and slots that are raised.
pub mod Numbers
pub mod Counts
pub mod Slots
