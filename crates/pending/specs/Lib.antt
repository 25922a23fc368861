pub mod Pending
pub mod Parts
pub mod Promises
