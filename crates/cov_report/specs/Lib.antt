pub mod Values
pub mod Scores
pub mod Duties
pub mod Json
