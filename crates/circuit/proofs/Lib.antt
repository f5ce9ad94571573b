pub mod Callers
pub mod Decoding
pub mod Files
mod Checking
pub mod FirstBad
pub mod Writing
pub mod Parts
pub mod FileBytes
pub mod Walks
pub mod Cuts
pub mod Saying
