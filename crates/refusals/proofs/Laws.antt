pub mod Rules
pub mod Next
pub mod Looks
