pub mod Entries
pub mod Stacks
pub mod StackParts
pub mod PathRules
