pub mod Following
pub mod NewClauses
pub mod ProofBack
pub mod Sound
pub mod Steps
pub mod Tables
pub mod Writes
