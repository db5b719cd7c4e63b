pub mod Draws
pub mod EachOnce
