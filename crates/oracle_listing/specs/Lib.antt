pub mod Oracle
pub mod Working
