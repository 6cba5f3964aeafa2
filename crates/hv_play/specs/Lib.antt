pub mod Laws
pub mod Outcome
pub mod Run
pub mod Script
pub mod Scripted
pub mod Steps
pub mod Texts
