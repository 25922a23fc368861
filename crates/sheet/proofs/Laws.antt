pub mod Bools
pub mod Good
pub mod Reading
