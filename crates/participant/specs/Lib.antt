pub mod Asks
pub mod ByMessage
