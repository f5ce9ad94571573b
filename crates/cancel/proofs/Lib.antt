pub mod Removing
pub mod Steps
pub mod Sentences
pub mod Files
pub mod Callers
mod Keeping
mod Passing
mod Writing
mod Answers
