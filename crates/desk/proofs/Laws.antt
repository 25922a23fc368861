pub mod Allowed
pub mod Answers
pub mod Calls
pub mod Writes
pub mod Sends
pub mod Takes
