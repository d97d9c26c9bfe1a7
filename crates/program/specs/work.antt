pub mod Marks
pub mod Aims
pub mod Work
pub mod Target
pub mod Decode
pub mod Ranges
pub mod Edges
pub mod Leap
