pub mod AskedFolds
pub mod AskedNodes
pub mod TreeLemmas
pub mod WordLemmas
pub mod AxisLemmas
