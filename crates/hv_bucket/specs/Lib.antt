pub mod Axes
pub mod Buckets
pub mod Hashes
pub mod Keys
pub mod Limits
pub mod PlaceLaws
pub mod Places
