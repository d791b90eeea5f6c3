pub mod Equality
pub mod RegexWriting
pub mod GivenGlobs
