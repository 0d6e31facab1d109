pub mod Laws
pub mod Made
pub mod Sizes
pub mod Unrolled
pub mod Values
