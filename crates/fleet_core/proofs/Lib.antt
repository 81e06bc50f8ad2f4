pub mod Along
pub mod Highest
pub mod Lasting
pub mod Levels
pub mod Lookups
pub mod Rising
pub mod Standing
pub mod Stepping
