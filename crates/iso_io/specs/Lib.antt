pub mod Moves
pub mod Streams
pub mod Script
