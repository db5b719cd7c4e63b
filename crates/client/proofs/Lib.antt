mod Closings
pub mod Refusals
mod Seen
pub mod Steps
