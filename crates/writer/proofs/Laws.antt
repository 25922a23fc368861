pub mod Given
pub mod Writing
