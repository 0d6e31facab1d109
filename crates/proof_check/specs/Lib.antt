pub mod Check
pub mod Lrat
pub mod Spent
pub mod Table
pub mod Written
