pub mod Commands
pub mod Help
pub mod Lines
pub mod Parser
pub mod Views
