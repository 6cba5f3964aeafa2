mod CountFacts
mod TermLemmas
pub mod TreeLemmas
pub mod WordLemmas
pub mod TableLemmas
pub mod LevelLemmas
pub mod RefusalLemmas
