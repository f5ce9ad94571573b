pub mod Spectrum
pub mod Working
