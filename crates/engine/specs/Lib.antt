pub mod Matching
pub mod Memory
pub mod inner
