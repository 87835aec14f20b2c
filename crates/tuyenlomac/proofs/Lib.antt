pub mod Starting
pub mod Waking
pub mod LibraryPromises
pub mod Unique
pub mod Apart
pub mod Literals
