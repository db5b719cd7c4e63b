pub mod Playings
pub mod Seen
pub mod SameStatus
pub mod KeptIds
pub mod InAll
pub mod Plain
pub mod Consistent
