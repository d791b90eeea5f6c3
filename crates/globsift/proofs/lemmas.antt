-- Lemmas by topic.
pub mod Lines
pub mod Output
pub mod Written
pub mod Handling
pub mod Chunks
pub mod Sifting
pub mod IndexText
pub mod Parsing
pub mod SplitAtSet
