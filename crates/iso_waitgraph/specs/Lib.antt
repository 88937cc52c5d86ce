pub mod Walks
pub mod Targets
