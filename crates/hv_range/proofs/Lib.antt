pub mod DistinctFacts
pub mod NumberFacts
pub mod RangeFacts
