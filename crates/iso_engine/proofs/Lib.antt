pub mod Stops
pub mod Outcomes
pub mod Complete
pub mod Order
pub mod Aims
