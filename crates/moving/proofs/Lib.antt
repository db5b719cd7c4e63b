pub mod Copying
pub mod Lists
pub mod Putting
pub mod Renewed
pub mod Told
