pub mod Signed
pub mod Only
pub mod Examples
pub mod laws
