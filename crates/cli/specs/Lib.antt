pub mod Answered
pub mod Ends
pub mod Written
