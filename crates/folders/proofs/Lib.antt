pub mod Histories
pub mod Moves
mod Recorded
mod Naming
