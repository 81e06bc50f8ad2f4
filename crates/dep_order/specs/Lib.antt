pub mod Orders
pub mod Faults
pub mod Places
pub mod Rows
pub mod Counts
pub mod Dependents
