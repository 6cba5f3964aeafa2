pub mod Column
pub mod Nullable
pub mod Rows
pub mod Store
