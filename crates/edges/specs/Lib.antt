pub mod Examples
pub mod Slips
