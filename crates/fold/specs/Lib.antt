pub mod Fold
pub mod Working
