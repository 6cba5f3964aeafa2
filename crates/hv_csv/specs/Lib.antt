pub mod Base
pub mod Fill
pub mod Left
