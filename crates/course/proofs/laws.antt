pub mod Portions
pub mod Boards
pub mod Ends
pub mod Going
pub mod Machine
pub mod Counts
pub mod Feeds
