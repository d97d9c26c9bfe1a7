pub mod Reader
pub mod Fields
pub mod work
