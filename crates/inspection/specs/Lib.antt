pub mod Files
pub mod Judged
