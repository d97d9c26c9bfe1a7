pub mod Work
pub mod Links
