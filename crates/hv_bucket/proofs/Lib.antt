pub mod Keyed
pub mod Reached
