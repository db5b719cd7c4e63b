mod Dealt
mod DeskFaults
mod Faults
mod Follow
mod Forgot
mod Grouped
mod InStep
mod Gone
mod Kept
mod Lists
mod Moved
pub mod Outcomes
pub mod Refusals
mod Renewed
mod Together
mod Turned
mod Viewers
