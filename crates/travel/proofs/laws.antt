pub mod Beats
pub mod Onward
pub mod Whole
pub mod Within
pub mod Plans
pub mod Papers
pub mod Arcs
