pub mod Spans
pub mod Month
pub mod Year
pub mod Date
pub mod Day
pub mod Calendar
