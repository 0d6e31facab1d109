pub mod Tags
pub mod Order
pub mod Ports
pub mod Rows
