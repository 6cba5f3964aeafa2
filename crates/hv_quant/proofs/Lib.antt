pub mod PairFacts
pub mod QuantileFacts
pub mod SampleFacts
