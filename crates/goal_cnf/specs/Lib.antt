pub mod Activity
pub mod Decoded
pub mod Goal
pub mod Laws
pub mod Made
pub mod Observation
pub mod Reaches
