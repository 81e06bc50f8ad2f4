pub mod Stood
pub mod Ends
pub mod Rollbacks
pub mod Starts
pub mod Onward
pub mod Serving
