pub mod Bits
pub mod Numbers
pub mod Bytes
pub mod Texts
pub mod Indexes
pub mod StateSets
pub mod inner
