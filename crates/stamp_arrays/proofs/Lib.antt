pub mod Tied
pub mod Faithful
pub mod Starting
pub mod StampPromises
pub mod ExactRefusals
pub mod Unique
