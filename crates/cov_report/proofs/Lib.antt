pub mod NoFloats
pub mod Printable
pub mod ScoreLines
pub mod Starts
pub mod Zips
