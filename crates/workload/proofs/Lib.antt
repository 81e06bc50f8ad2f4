pub mod Falling
pub mod Roots
pub mod Steps
