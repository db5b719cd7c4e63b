pub mod Safe
pub mod Laws
