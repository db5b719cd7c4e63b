pub mod Computing
pub mod Places
pub mod Sessions
pub mod Shown
