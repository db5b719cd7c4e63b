pub mod Admission
pub mod Carried
pub mod Changing
pub mod Fits
pub mod Logged
pub mod Served
pub mod States
pub use Rattle.rows.proofs.Clashes
