pub mod Drafts
pub mod Requests
pub mod Takes
pub mod Taken
