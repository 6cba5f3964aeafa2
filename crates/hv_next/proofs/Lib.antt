pub mod EachKey
pub mod FitFacts
pub mod KeyFacts
pub mod NextFacts
pub mod PlaceFacts
