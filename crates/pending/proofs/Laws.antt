pub mod Entries
pub mod Lays
pub mod Sending
pub mod Good
pub mod Bytes
