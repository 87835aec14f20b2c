pub mod Places
pub mod Rest
pub mod OneProgram
pub mod Unique
