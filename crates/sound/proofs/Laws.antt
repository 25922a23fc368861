pub mod Days
pub mod Kinds
pub mod Scans
pub mod Clauses
pub mod Sound
