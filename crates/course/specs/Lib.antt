pub mod Text
pub mod Run
pub mod Walk
pub mod work
