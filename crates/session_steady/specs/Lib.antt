pub mod Acting
pub mod Failures
pub mod Runs
pub mod Serves
pub mod Stays
