mod Alone
pub mod Begins
mod Circle
mod Drawn
pub mod Ends
pub mod Heads
mod Lines
mod Picks
mod Rests
mod Scheduled
mod Whole
mod Whose
