pub mod Text
pub mod Value
pub mod Ids
pub mod Head
pub mod Filled
pub mod Edges
pub mod Cycles
