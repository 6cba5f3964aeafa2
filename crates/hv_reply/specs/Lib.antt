pub mod Values
pub mod Lineages
pub mod Replies
pub mod ReadBack
