pub mod Elements
pub mod Ending
pub mod Joining
mod OneList
pub mod Owning
pub mod Readings
pub mod Sifting
pub mod Telling
