pub mod PathParts
pub mod Below
pub mod Key
pub mod Entries
pub mod Texts
pub mod Laws
pub mod inner
