-- Lemmas by topic.
pub mod Memory
pub mod Numbers
pub mod Pools
pub mod Rows
pub mod Shared
pub mod Lists
pub mod Chunks
pub mod Known
