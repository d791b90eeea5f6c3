pub mod CharacterRows
pub mod ClassTable
pub mod LexemeViews
pub mod Nests
pub mod TokenReading
pub mod Weight
pub mod WellFormed
