pub mod Work
pub mod Ears
pub mod Take
