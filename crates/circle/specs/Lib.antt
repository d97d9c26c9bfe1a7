pub mod Rule
pub mod Arc
pub mod Plan
pub mod Sound
