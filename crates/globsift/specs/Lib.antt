pub mod Lines
pub mod Output
pub mod Command
pub mod Texts
pub mod Program
pub mod Laws
pub mod inner
