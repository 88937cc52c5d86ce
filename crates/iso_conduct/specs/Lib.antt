-- The own entries of each statement, conduct, pacing, schedules, legal and whole histories.
pub mod Parts
pub mod Points
pub mod Courses
pub mod Starts
pub mod Answers
pub mod Outcomes
pub mod Conduct
pub mod Pacing
pub mod Schedule
pub mod Legal
pub mod Whole
pub mod Standing
