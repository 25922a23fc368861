pub mod Laws
pub mod Listing
