pub mod Callers
pub mod Cuts
