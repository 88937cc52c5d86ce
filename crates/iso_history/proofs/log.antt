pub mod Cells
pub mod Recorded
pub mod Lefts
pub mod Taken
pub mod Settled
pub mod Fitted
pub mod Logged
pub mod Linked
