pub mod Words
pub mod ExcludedGlobs
pub mod Strategies
pub mod Direct
