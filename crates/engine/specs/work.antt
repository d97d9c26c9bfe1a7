pub mod Work
pub mod Glide
pub mod Acts
