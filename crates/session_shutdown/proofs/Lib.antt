mod KeptLeaving
mod Leaving
mod Asked
mod Entering
mod Waiting
mod Turning
mod Ended
pub mod Falling
