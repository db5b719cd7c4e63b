pub mod Failures
pub mod Replies
pub mod Streams
pub mod Verdicts
