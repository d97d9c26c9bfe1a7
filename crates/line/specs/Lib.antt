pub mod Letter
pub mod Code
pub mod Said
pub mod Numbers
pub mod Lines
pub mod Spaces
pub mod work
