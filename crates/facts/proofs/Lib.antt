pub mod Entries
pub mod Ids
pub mod Heads
pub mod Kept
pub mod Known
pub mod Nexts
pub mod Retired
