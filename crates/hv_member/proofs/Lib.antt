mod BitLemmas
pub mod CountLemmas
mod CombineLemmas
mod GapLemmas
mod KeptLemmas
pub mod MembershipLemmas
pub mod MergeLemmas
pub mod RisingLemmas
pub mod SearchLemmas
pub mod WholeLemmas
mod WordSetLemmas
