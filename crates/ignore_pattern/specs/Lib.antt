pub mod Ends
pub mod Lines
pub mod Classes
pub mod Elements
pub mod Patterns
pub mod Automata
pub mod Compared
pub mod inner
