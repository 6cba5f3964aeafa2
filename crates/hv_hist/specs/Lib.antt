pub mod Histogram
pub mod Slots
pub mod Sums
