-- Examples whose expected values are written out, computed from the definitions alone.
pub mod Terms
mod Lines
mod Output
mod CommandOfGlobs
mod CommandOfSet
