pub mod Answer
pub mod Parts
pub mod Promises
pub mod Refusals
