pub mod BitRow
pub mod Bytes
pub mod Files
pub mod Lending
pub mod MemSink
pub mod MemStore
pub mod Numbers
pub mod Plans
