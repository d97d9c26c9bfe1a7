pub mod Chains
pub mod Fields
pub mod Size
pub mod Pairs
