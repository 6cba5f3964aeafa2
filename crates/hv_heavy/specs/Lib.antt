pub mod CountOf
pub mod Counting
pub mod Hashes
pub mod Heavy
pub mod HeavyLaws
pub mod PairOrder
pub mod Pairs
pub mod ValuePlaces
