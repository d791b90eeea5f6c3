pub mod SetOfMatcher
