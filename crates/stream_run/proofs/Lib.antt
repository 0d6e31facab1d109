pub mod Computing
pub mod Stepping
pub mod Asserting
pub mod Firings
pub mod Listed
pub mod Keeping
