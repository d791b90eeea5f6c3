-- Definitions that only contracts between the crates and proofs cite.
pub mod Found
pub mod Numbers
pub mod Source
pub mod Lists
pub mod Chunks
pub mod Known
