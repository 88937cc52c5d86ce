pub mod Director
pub mod Turns
pub mod Untied
