pub mod Ahead
pub mod Bytes
pub mod Scan
pub mod Fronts
pub mod Calls
