mod Clients
pub mod Following
pub mod Lines
pub mod ReadBack
pub mod Verbs
