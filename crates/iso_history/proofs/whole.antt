pub mod Writers
pub mod Sound
pub mod Journal
pub mod Guarded
pub mod Looking
pub mod Locks
pub mod Pressed
pub mod PressedWrites
