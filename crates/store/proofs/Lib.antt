mod Attempts
mod Dealt
mod Across
mod Ends
mod Shown
mod Telling
mod Waiting
mod Written
