pub mod Short
pub mod Linked
mod Insertion
mod CommittedRead
mod Savepoints
mod ReadStability
mod NextKeyWait
mod QueueOrder
mod Deadlock
mod Timeouts
mod Escalation
mod UniqueWait
mod Nulls
mod RepeatableTable
mod Damaged
