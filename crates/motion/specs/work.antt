pub mod Room
pub mod Made
pub mod Here
pub mod Beat
