pub mod Ends
pub mod Purges
pub mod Doubts
pub mod Filling
pub mod Freshness
