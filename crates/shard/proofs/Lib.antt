pub mod Agrees
mod Gone
pub mod Appends
pub mod Beginnings
pub mod Booked
pub mod Carried
pub mod Commits
pub mod Commitments
pub mod Plans
pub mod Results
pub mod Settling
pub mod TakenIn
pub mod Openings
pub mod TakenUp
pub mod Showable
pub mod Turnings
pub mod Groups
