pub mod Placed
pub mod Gate
pub mod Entries
pub mod Calls
pub mod Ahead
pub mod Front
