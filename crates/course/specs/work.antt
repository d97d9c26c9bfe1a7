pub mod Work
pub mod Machine
pub mod Glide
pub mod Going
pub mod Feed
