pub mod RunningSums
pub mod SlotCounts
