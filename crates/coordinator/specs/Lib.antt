pub mod ByMessage
pub mod Granted
