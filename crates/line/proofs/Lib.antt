pub mod Digits
pub mod Spaces
pub mod Shapes
pub mod Items
pub mod laws
pub mod Only
