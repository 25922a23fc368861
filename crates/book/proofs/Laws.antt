pub mod Sheets
pub mod Good
pub mod Stepping
pub mod Examining
pub mod Lookup
pub mod Calls
pub mod Answers
