pub mod Sheets
pub mod Good
pub mod Stepping
pub mod Counting
pub mod Lookup
pub mod Adding
pub mod Parts
pub mod Promises
