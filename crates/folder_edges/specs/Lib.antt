pub mod Names
pub mod Entries
pub mod Giving
pub mod Queues
pub mod Inboxes
pub mod Laws
pub mod Recipes
pub mod Held
