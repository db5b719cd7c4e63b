pub mod Ends
pub mod Readings
pub mod Refusals
pub mod Traffic
pub mod Outcomes
