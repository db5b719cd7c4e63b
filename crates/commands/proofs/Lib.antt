pub mod Named
pub mod OfFiles
pub mod OfKey
pub mod Refusals
