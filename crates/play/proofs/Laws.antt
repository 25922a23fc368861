pub mod Latest
pub mod Making
pub mod Trays
pub mod Standing
pub mod Running
pub mod Lines
pub mod Playing
pub mod Whole
