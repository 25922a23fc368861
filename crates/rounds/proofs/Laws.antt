pub mod EndsIn
