pub mod Since
pub mod Failures
pub mod Hearing
pub mod Staying
pub mod Serving
pub mod Waiting
