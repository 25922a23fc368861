pub mod Head
pub mod Sound
pub mod Parts
