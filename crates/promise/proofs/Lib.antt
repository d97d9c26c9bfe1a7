pub mod History
pub mod laws
