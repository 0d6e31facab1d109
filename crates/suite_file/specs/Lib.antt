pub mod Records
pub mod Tables
pub mod Values
pub mod Written
pub mod Suites
pub mod Meaning
pub mod Refusals
-- for the crate's own functions
pub mod Reading
pub mod Writing
pub mod NameTables
pub mod Steps
