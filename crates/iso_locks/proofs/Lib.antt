pub mod LockSteps
pub mod ClaimSteps
pub mod FreeSteps
pub mod Escalations
pub mod Blocks
