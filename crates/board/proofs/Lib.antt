pub mod Signed
pub mod Told
pub mod Only
pub mod laws
