mod Lines
pub mod Summed
pub mod Members
