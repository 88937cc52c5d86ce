pub mod Pinned
pub mod Parts
