pub mod Outcomes
pub mod Given
pub mod Passed
pub mod Numbering
pub mod Contracts
pub mod Rooms
pub mod Cuts
