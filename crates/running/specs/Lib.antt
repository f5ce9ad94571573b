pub mod Run
pub mod Masks
pub mod Groups
pub mod Ends
pub mod Working
