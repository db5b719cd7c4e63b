pub mod Copies
pub mod Exports
pub mod Imports
pub mod Renewals
