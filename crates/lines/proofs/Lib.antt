pub mod Words
pub mod Steps
pub mod Starts
pub mod Samples
pub mod Printed
