pub mod Runs
pub mod Firings
pub mod Laws
