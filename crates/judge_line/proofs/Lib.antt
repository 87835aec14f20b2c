pub mod Fitting
pub mod SpareRoom
pub mod WordLines
pub mod Saying
pub mod LineLength
pub mod LongTexts
pub mod Unique
