pub mod Named
pub mod Locks
pub mod Tasks
pub mod Weighs
pub mod Registers
