pub mod Bank
pub mod Keeping
pub mod Sessions
pub mod Transfers
