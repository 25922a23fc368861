pub mod Text
pub mod Separated
pub mod Decimal
pub mod Promises
