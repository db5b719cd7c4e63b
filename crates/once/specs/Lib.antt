pub mod Replies
pub mod Shards
