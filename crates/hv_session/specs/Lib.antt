pub mod Held
pub mod Talk
pub mod Whole
