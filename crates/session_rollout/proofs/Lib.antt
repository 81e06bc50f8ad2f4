pub mod Joining
pub mod Leaving
mod Ways
mod Hands
mod Stopping
mod Endings
mod Entering
mod Counts
mod Fresh
mod Deployment
mod BackBoots
