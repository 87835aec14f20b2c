pub mod Decides
pub mod Every
pub mod Fitting
pub mod Granting
pub mod Open
pub mod Unheld
pub mod Unique
pub mod Wanted
