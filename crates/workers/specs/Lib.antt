pub mod Course
pub mod Keys
pub mod Summaries
pub mod Turns
pub mod Refusals
pub mod Reports
pub mod Staffs
