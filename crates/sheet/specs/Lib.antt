pub mod Good
pub mod Clauses
pub mod Reading
pub mod Promises
