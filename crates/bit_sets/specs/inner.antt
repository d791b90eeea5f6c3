pub mod Summary
pub mod Bounds
pub mod Ticks
