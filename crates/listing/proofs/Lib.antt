pub mod Decimals
pub mod Fractions
pub mod Lengths
pub mod Wrapping
mod Pieces
mod Loops
mod Answers
pub mod Callers
