pub mod Sheet
pub mod Refusal
pub mod Chain
pub mod work
