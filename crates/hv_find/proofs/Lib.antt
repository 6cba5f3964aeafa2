pub mod FindFacts
pub mod FirstFacts
