pub mod Turned
pub mod Keeps
pub mod Rules
pub mod Laws
pub mod Ended
pub mod Ledger
pub mod Handed
