pub mod Performed
pub mod StepUnique
