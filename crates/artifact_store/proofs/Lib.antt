pub mod Auditing
pub mod Copying
pub mod Counting
pub mod Needing
pub mod Sparing
pub mod Staging
pub mod Sweeping
pub mod Walking
