pub mod Parities
pub mod Polynomials
pub mod Ideals
mod Adding
mod Gathering
mod Blocks
mod Weighing
mod Filling
mod Signing
mod Ends
mod Summaries
mod Turning
mod Answers
pub mod Callers
