pub mod Lifts
pub mod Orders
pub mod Least
