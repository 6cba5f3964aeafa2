pub mod Find
pub mod FindLaws
pub mod FindSums
pub mod First
pub mod Fits
pub mod Hashes
pub mod Least
pub mod LeastLaws
