pub mod Values
pub mod Reports
pub mod Staffs
pub mod Buffered
pub mod Turns
pub mod Refusals
mod Reading
