pub mod Spans
pub mod Calendar
pub mod Parts
pub mod Promises
