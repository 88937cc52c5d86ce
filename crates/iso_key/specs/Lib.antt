pub mod Entries
pub mod Pages
pub mod Cuts
pub mod Splits
