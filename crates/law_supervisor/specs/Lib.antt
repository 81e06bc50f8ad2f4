pub mod Sound
pub mod Keeps
pub mod Rows
