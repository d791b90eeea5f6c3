pub mod Index
pub mod Ordering
pub mod Lists
pub mod Rows
pub mod Ends
pub mod Reading
pub mod Shared
pub mod Classes
