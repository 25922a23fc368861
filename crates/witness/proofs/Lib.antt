pub mod Laws
pub mod RunsPlayed
pub mod WrongRuns
pub mod TheEndComes
pub mod WrongDesks
