pub mod Entries
pub mod Lines
pub mod PathRules
pub mod Stacks
pub mod TwoRules
pub mod Walks
