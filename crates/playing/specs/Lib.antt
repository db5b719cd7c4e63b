pub mod Reports
pub use Rattle.lives.specs.Fleet
pub mod Reported
