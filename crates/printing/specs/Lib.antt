pub mod StepAnswer
pub mod Printing
pub mod Parts
