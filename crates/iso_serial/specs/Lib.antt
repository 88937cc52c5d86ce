-- The turns of a run on one thread.
pub mod Rounds
pub mod Seeds
pub mod UnderWay
