pub mod Interval
pub mod Reading
