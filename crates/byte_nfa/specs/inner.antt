pub mod Views
pub mod Pass
pub mod Exits
pub mod Sources
pub mod Told
pub mod Stepping
