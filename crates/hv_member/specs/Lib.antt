pub mod Bits
pub mod Kept
pub mod Member
pub mod PartSet
pub mod Sets
