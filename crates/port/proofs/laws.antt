pub mod Codes
pub mod Code
pub mod Ticks
pub mod Calls
pub mod Same
