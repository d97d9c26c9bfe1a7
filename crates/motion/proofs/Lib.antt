pub mod Work
pub mod Standing
pub mod Looks
pub mod Routes
pub mod Only
pub mod Examples
pub mod laws
