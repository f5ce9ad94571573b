pub mod Callers
pub mod Counts
pub mod Masks
pub mod Held
pub mod Runs
pub mod Groups
pub mod Meetings
pub mod Walks
pub mod Ends
mod Answers
mod Stepping
mod Loops
