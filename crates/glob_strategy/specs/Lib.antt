pub mod Excluded
pub mod TokenTests
pub mod Strategies
pub mod Direct
pub mod StrategyMeaning
pub mod Below
pub mod IndexedTokens
pub mod inner
