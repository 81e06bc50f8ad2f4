pub mod Commands
pub mod Course
pub mod Runs
