pub mod CivilLemmas
pub mod DayLemmas
pub mod OrderFacts
pub mod RecordsOfBytes
pub mod RowsOfBytes
pub mod TableFacts
