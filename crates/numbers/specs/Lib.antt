pub mod Bits
pub mod Sums
pub mod Turn
pub mod Search
pub mod Working
