pub mod Written
pub mod Keeping
