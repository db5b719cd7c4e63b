pub mod FirstShard
pub mod FirstStep
pub mod ReplyLemmas
pub mod ShardLemmas
