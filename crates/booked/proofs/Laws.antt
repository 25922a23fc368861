pub mod Sheets
pub mod Entries
pub mod Newest
pub mod Laying
pub mod Adding
pub mod Lines
pub mod Computing
