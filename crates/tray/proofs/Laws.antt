pub mod Zeros
pub mod Looking
pub mod Holding
pub mod Parts
pub mod Places
pub mod Bytes
