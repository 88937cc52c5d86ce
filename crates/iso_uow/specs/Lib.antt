pub mod Savepoints
pub mod Book
