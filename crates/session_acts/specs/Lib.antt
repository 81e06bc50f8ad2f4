pub mod Laws
pub mod Runs
pub mod Taken
pub mod Traces
pub mod Waits
