pub mod Numbers
pub mod Desks
pub mod Texts
pub mod Calls
