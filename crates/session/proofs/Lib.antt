pub mod Filters
pub mod Kept
pub mod Steps
pub mod Requests
pub mod Loops
