pub mod Verdict
pub mod Check
pub mod Program
pub mod Edges
pub mod Going
pub mod Onward
pub mod Rounds
pub mod work
