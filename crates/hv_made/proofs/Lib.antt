pub mod BaseSteps
pub mod ColumnSteps
pub mod CombineSteps
pub mod RowSteps
pub mod UnionSteps
