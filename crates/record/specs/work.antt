pub mod Work
pub mod Writing
