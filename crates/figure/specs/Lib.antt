pub mod Figure1
pub mod Map
pub mod Demand2
pub mod Settled
