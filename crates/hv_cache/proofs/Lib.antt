mod LruLemmas
pub mod ResultsLemmas
