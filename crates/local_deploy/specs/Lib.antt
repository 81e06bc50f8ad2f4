pub mod Documents
pub mod Lines
pub mod Lists
pub mod Named
pub mod Reads
pub mod Reasons
pub mod Sound
pub mod Spelled
