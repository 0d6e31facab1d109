pub mod Actives
pub mod Frames
pub mod Lending
pub mod Answering
pub mod Places
pub mod Sharing
pub mod Steps
pub mod Trees
