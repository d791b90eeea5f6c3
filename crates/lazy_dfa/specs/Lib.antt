pub mod DfaValue
pub mod inner
