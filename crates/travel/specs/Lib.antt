pub mod Next
pub mod Plan
pub mod Sound
pub mod work
