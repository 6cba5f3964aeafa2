pub mod AddKey
pub mod Fits
pub mod Hashes
pub mod KeyOrder
pub mod KeyPlaces
pub mod Next
pub mod NextLaws
pub mod NextSums
