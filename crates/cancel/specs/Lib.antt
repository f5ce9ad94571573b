pub mod Cancel
pub mod Sentences
pub mod Working
