pub mod Values
pub mod Operators
pub mod Run
pub mod Valid
pub mod Readers
pub mod Admissible
