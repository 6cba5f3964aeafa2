pub mod AnyLaws
pub mod Auto
pub mod Frequent
pub mod Keys
pub mod Plans
pub mod Stands
pub mod View
