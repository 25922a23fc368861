pub mod Lines
pub mod Words
pub mod Start
pub mod Step
pub mod Parts
