pub mod Places
pub mod Lists
pub mod Snapshots
pub mod Holding
pub mod Weights
