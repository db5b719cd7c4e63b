pub mod Given
pub mod Known
pub mod Laws
pub mod Readers
pub mod Rules
pub mod Shown
pub mod Stages
