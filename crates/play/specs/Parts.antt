pub mod Lines
pub mod Making
pub mod Running
