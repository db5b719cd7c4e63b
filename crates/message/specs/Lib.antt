pub mod Ends
pub mod ReadSet
