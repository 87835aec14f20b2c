pub mod Codes
pub mod Places
pub mod Moves
pub mod Settling
pub mod Steps
pub mod Stands
pub mod Seen
