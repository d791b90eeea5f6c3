pub mod Building
pub mod DecidedByKey
pub mod FlatTests
pub mod Frames
pub mod TokenStates
