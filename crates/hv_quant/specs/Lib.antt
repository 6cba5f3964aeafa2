pub mod Hashes
pub mod Pairs
pub mod Quantiles
pub mod Sample
pub mod SampleLaws
pub mod SampleOrder
pub mod Sampling
