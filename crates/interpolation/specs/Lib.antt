pub mod Laws
pub mod Lookups
pub mod Scopes
pub mod Sizes
pub mod Values
pub mod Variables
