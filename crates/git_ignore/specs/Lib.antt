pub mod Rules
pub mod TwoRules
pub mod Folders
pub mod RulesValue
pub mod StackValue
pub mod inner
