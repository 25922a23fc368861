pub mod Line
pub mod Promises
pub mod Samples
pub mod Printed
