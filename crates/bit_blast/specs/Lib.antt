pub mod Answers
pub mod Circuit
pub mod Costs
pub mod Limits
pub mod Made
pub mod Meaning
pub mod Numbers
pub mod Words
