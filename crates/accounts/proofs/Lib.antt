pub mod BySessions
pub mod Induction
pub mod Sample
pub mod Sums
pub mod Transferring
