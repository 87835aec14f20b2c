pub mod Letters
pub mod Refusals
pub mod Words
pub mod Limits
