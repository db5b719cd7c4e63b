pub mod Counting
pub mod Granting
pub mod Others
