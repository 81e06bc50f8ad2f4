pub mod Drafts
pub mod Sample
pub mod Staying
pub mod Taking
pub mod Asking
pub mod Meeting
