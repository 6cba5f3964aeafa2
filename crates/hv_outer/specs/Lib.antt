pub mod Causes
pub mod Counted
pub mod SinkState
pub mod SourceState
pub mod Texts
pub mod Turns
