pub mod Stopping
pub mod Job
