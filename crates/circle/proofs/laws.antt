pub mod Roots
pub mod Square
pub mod Work
pub mod Papers
pub mod Rules
pub mod Arcs
pub mod Beats
pub mod Bends
