pub mod Text
pub mod Words
pub mod Fractions
pub mod Listing
pub mod Working
