pub mod Walk
pub mod Word
