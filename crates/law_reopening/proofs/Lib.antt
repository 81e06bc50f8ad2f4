pub mod Owed
pub mod Left
