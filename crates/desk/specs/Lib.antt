pub mod Answers
pub mod Calls
pub mod Promises
pub mod Values
pub mod Parts
