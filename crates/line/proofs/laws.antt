pub mod RoundTrip
pub mod Papers
pub mod Spaces
