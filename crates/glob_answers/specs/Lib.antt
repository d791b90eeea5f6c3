pub mod Selection
pub mod Shortest
pub mod Comparison
