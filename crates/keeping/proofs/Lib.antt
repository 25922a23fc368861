pub mod Laws
pub mod Keeping
