pub mod ChangeSteps
pub mod Rows
mod Judged
mod Pairs
mod Keyed
mod Asked
pub mod SlotReads
pub mod Walks
pub mod Firsts
pub mod Numbered
mod Writable
mod Taken
mod RowSteps
mod Blocked
mod SameLocks
