pub mod Callers
pub mod Remaining
pub mod Positions
pub mod Folding
pub mod Scores
pub mod Files
mod Answers
mod Stepping
mod Writing
mod Summing
