pub mod Entries
pub mod Calls
