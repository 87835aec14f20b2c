pub mod Grants
pub mod Room
pub mod Cells
pub mod Performed
pub mod Woken
pub mod Telling
pub mod StepUnique
