pub mod TextTests
pub mod Sizes
pub mod Checks
pub mod Values
pub mod Holds
pub mod Memory
pub mod Ready
pub mod Hashes
