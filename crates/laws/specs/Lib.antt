pub mod Choice
pub mod Unique
pub mod Lists
pub mod Functions
pub mod Sorted
pub mod Larger
pub mod Standing
