pub mod Hashes
pub mod Index
pub mod Lists
pub mod Rows
pub mod Reached
pub mod Classes
pub mod Dfa
