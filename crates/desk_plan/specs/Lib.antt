pub mod Fits
pub mod Grants
