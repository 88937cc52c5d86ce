pub mod Rebuilds
pub mod Links
