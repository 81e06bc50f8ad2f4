pub mod Events
pub mod Fleets
pub mod Keeping
pub mod Laws
pub mod Meaning
pub mod Replies
pub mod Takings
