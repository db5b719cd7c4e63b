pub mod Recovered
pub mod Rebuilding
pub mod Taken
pub use Rattle.memory.specs.Kept
