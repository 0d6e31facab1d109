pub mod Tree
pub mod Acts
pub mod Passing
pub mod Growing
