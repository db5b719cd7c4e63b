pub mod Disks
pub mod Drives
pub mod Faults
pub mod OnDisks
pub mod Puts
pub mod Replies
