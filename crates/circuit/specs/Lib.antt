pub mod Bytes
pub mod Gates
pub mod File
pub mod Working
