pub mod GlobNfa
pub mod Members
pub mod Values
