mod OptionLists
pub mod RowsAcross
