pub mod RowsThere
