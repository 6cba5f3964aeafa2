pub mod Tables
pub mod Samples
pub mod Words
pub mod Terms
pub mod Views
pub mod Messages
pub mod LineageTexts
pub mod Meant
