pub mod Calling
pub mod LentPromises
pub mod Unique
