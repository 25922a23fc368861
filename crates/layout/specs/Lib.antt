pub mod Layout
pub mod Values
pub mod Promises
