pub mod Gray
pub mod Construction
pub mod Working
