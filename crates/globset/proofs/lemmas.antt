pub mod Answer
pub mod Laws
pub mod SetFromValue
pub mod WalkNames
pub mod WalkParameters
pub mod WalkResults
pub mod Shared
