pub mod Gives
pub mod Grammar
pub mod Reading
pub mod Limits
pub use Rattle.record.specs.declared.record
