pub mod CauseLemmas
pub mod FrontLemmas
mod SourceLemmas
pub mod TurnLemmas
