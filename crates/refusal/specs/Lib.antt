pub mod Names
pub mod Checks
pub mod Contract
