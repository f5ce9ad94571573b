pub mod Callers
pub mod Lowest
pub mod Scanning
pub mod Sides
mod Judging
mod Answers
mod Summing
mod Pairs
