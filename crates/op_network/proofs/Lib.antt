pub mod Found
pub mod NameOrder
pub mod Pairs
pub mod Rows
pub mod Typing
pub mod Words
