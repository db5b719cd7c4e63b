pub mod Replay
pub mod Fates
pub mod Held
pub mod Moments
pub mod State
