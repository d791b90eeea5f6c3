pub mod Domains
pub mod Shortest
pub mod Answers
pub mod Unused
pub mod Laws
pub mod Rules
pub mod inner
