pub mod GridCounts
pub mod GridLoops
