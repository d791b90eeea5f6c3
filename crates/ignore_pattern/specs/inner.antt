pub mod Views
pub mod States
