pub mod TalkLemmas
pub mod SessionLemmas
pub mod PartLemmas
pub mod FirstLemmas
pub mod ValueLemmas
