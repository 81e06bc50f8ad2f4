pub mod Enters
pub mod Fails
pub mod Kills
