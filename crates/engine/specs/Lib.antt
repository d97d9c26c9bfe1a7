pub mod Kinds
pub mod State
pub mod Tick
pub mod Sound
pub mod work
