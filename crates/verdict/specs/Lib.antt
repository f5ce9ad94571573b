pub mod Verdicts
pub mod Judging
pub mod Working
