pub mod Examples
pub mod AlwaysAndOnly
pub mod Slips
