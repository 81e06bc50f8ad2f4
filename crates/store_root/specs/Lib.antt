pub mod Roots
pub mod Kinds
pub mod Tallies
