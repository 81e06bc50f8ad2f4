pub mod Real
pub mod Untold
