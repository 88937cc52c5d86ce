pub mod Fitting
pub mod Setting
pub mod Paths
pub mod Bounded
pub mod Overflows
pub mod Orders
pub mod Intersections
