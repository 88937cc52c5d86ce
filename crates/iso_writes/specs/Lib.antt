pub mod Changing
pub mod Answers
pub mod Walk
pub mod Ordered
