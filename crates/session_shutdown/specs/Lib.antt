pub mod Leaves
pub mod Laws
pub mod Runs
pub mod Stops
