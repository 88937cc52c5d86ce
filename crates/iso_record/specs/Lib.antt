pub mod Undone
pub mod Olds
