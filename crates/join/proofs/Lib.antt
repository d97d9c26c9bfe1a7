pub mod Deciding
pub mod Only
pub mod laws
