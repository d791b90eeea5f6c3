pub mod Words
pub mod Unfoldings
mod Stars
mod Classes
mod Faults
mod ErrorOffsets
mod ClassBytes
