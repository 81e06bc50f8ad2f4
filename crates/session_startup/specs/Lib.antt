pub mod Laws
pub mod Runs
pub mod Did
pub mod Coming
pub mod Turns
pub mod Ended
pub mod Closing
