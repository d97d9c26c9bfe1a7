pub mod Fault
pub mod Memory
pub mod Bytes
pub mod Places
pub mod Table
pub mod Keep
pub mod Listing
pub mod work
