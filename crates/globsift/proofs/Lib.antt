pub mod lemmas
pub mod examples
