pub mod Call
pub mod Run
pub mod TurnRules
pub mod EveryRun
pub mod AtTheEnd
