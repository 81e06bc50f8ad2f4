pub mod Faults
pub mod Gathered
pub mod Library
pub mod Memory
pub mod Nothing
pub mod SoFar
pub mod Sources
