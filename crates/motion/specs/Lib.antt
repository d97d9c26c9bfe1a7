pub mod Axes
pub mod Phase
pub mod Pulse
pub mod Plan
pub mod Next
pub mod Sound
pub mod work
