pub mod Coefficients
pub mod Summaries
pub mod Working
