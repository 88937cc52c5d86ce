pub mod Sets
pub mod Distances
pub mod Ways
pub mod Chosen
pub mod Members
pub mod Paths
pub mod Tried
pub mod Agree
