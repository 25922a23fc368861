pub mod RunsPlayed
pub mod Changed
pub mod WrongRuns
pub mod WrongDesks
pub mod TheEndComes
