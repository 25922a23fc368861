pub mod Laws
pub mod EveryRun
pub mod TurnRules
pub mod AtTheEnd
