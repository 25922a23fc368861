pub mod Content
pub mod Standing
pub mod Promises
