-- Definitions that only private functions and proofs cite.
pub mod Sifting
pub mod Outputs
pub mod Parsing
