pub mod Fits
pub mod Turns
pub mod Steps
pub mod Quiet
pub mod Scans
pub mod Ways
pub mod Passes
pub mod Rising
