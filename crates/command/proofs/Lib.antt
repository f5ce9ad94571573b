mod Scans
pub mod Cuts
pub mod Rooms
pub mod Whole
pub mod Cases
