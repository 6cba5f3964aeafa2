pub mod CheckLemmas
pub mod ColumnLemmas
pub mod FlatLemmas
pub mod Refused
pub mod RowLemmas
pub mod TermNodes
