pub mod Runs
pub mod Coverage
pub mod Tables
pub mod Names
pub mod Rows
pub mod Watching
pub mod Laws
