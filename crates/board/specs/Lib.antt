pub mod State
pub mod Direct
pub mod Storing
pub mod Receive
pub mod Calls
pub mod work
