pub mod Words
pub mod Answers
pub mod Reading
pub mod Lines
