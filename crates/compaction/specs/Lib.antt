pub mod Compacted
pub mod Shown
