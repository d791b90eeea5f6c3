pub mod Words
pub mod Indexes
pub mod JsonSets
