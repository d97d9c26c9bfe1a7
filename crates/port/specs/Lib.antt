pub mod Code
pub mod Calls
pub mod Store
pub mod Host
pub mod work
