pub mod Driven
pub mod Backwards
