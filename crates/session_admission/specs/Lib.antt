pub mod Readied
pub mod Accepts
