pub mod Laws
pub mod Demand2
pub mod Settled
