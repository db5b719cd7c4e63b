pub mod CodeRows
pub mod RowTable
pub mod States
pub use Rattle.locks.specs.Table
